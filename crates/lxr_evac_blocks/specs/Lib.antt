pub mod Choosing
pub mod Ranks
pub mod Releasing
