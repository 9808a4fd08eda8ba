pub mod AsHeld
pub mod HolderLemmas
pub mod OpeningLemmas
pub mod RefusalLemmas
