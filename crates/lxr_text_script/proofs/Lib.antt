pub mod Cutting
mod Items
mod Digits
pub mod Loops
pub mod Spelled
pub mod Plain
pub mod Canonical
pub mod Accepted
pub mod Rounds
