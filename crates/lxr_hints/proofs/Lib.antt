pub mod Lent
pub mod Rules
pub mod Tries
pub mod Ways
