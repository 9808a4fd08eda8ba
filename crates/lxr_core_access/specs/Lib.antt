pub mod Accesses
pub mod Laws
pub mod Decrementers
pub mod Tracers
