pub mod MutatorLemmas
pub mod ActorLemmas
pub mod SpaceLemmas
pub mod FitLemmas
pub mod TurnLemmas
pub mod LoopLemmas
