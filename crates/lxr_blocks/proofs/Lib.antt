pub mod BesideLemmas
pub mod ClearingAllLemmas
pub mod ClearingLemmas
mod EdgeLemmas
pub mod FreeLemmas
mod HalvesLemmas
pub mod HandedLemmas
pub mod HandingLemmas
pub mod InTurnLemmas
pub mod KeptLemmas
pub mod KnownLemmas
pub mod LeftLemmas
pub mod LineLemmas
pub mod ListingLemmas
pub mod MaskLemmas
pub mod RoundLemmas
pub mod SkippingLemmas
pub mod SweptLemmas
