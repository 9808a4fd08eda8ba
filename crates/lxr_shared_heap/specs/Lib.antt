pub mod Settings
pub mod Making
pub mod Resting
pub mod Renewing
pub mod Telling
pub mod Heaps
pub mod Packing
pub mod Trimming
