pub mod Laws
pub mod Storing
pub mod Storers
pub mod Unlogged
