pub mod Tracing
pub mod Words
pub mod Phases
pub mod Steps
pub mod Units
pub mod Tracers
pub mod Laws
pub mod Lawful
