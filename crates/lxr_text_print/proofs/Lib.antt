pub mod PageLemmas
pub mod TextLemmas
pub mod HistoryLemmas
