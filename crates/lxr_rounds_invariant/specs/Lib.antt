pub mod LoopInvariant
pub mod Laws
pub mod Renewing
