pub mod TestLemmas
pub mod CountLemmas
pub mod PassingLemmas
pub mod OrderLemmas
pub mod ChoiceLemmas
pub mod RankLemmas
pub mod ChosenLemmas
pub mod ReleaseLemmas
