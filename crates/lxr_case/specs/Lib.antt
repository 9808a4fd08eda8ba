pub mod Parts
pub mod Items
pub mod Reading
pub mod Faults
