pub mod SetLemmas
pub mod CallLemmas
pub mod ReportLemmas
pub mod PauseLemmas
pub mod RunLemmas
pub mod LoopLemmas
