pub mod SerialLemmas
pub mod HistoryLemmas
