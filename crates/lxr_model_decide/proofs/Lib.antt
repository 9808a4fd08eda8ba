pub mod GrowLemmas
pub mod SetLemmas
pub mod PartLemmas
pub mod LegalityLemmas
pub mod BelongingLemmas
pub mod TestLemmas
mod RunLemmas
mod MissLemmas
mod ScriptLemmas
pub mod SwapLemmas
mod RememberedLemmas
mod RenewalLemmas
