mod Loops
mod Accepted
mod Lines
pub mod CauseLemmas
pub mod HistoryLemmas
