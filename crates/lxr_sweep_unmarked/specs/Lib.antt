pub mod Sweeping
pub mod Clearing
pub mod Releasing
