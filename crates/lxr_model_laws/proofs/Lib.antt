pub mod ReportLemmas
pub mod TraceLemmas
pub mod OnceLemmas
pub mod ClosedLemmas
pub mod ScriptLemmas
