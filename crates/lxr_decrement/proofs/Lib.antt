pub mod StayLemmas
pub mod UnitLemmas
