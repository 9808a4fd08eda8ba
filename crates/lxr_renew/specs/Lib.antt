pub mod Renewing
pub mod Heads
pub mod Laws
