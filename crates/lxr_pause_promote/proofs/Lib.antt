pub mod CopyLemmas
pub mod PlacedLemmas
pub mod TableLemmas
pub mod WordLemmas
pub mod FewerLemmas
pub mod EitherLemmas
