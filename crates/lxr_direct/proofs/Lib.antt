mod TurnedLemmas
mod HeldLemmas
mod DoneLemmas
mod RegisterLemmas
mod FieldLemmas
mod KnownLemmas
mod ThroughLemmas
pub mod MakingLemmas
pub mod NamedLemmas
