pub mod Roomy
pub mod Draws
pub mod Bits
