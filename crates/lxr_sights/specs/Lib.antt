pub mod Sights
pub mod Copies
pub mod Spares
pub mod Gates
