pub mod UnitEnds
pub mod Openings
pub mod KindUnits
pub mod StartedLemmas
