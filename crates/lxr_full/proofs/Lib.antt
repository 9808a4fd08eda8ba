pub mod SlotLemmas
pub mod TouchedLemmas
pub mod TakenLemmas
pub mod TakenLines
pub mod RoomLemmas
pub mod WorldLemmas
pub mod KeptLemmas
