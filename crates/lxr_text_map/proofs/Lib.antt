pub mod JoinedLemmas
pub mod ObjectLemmas
