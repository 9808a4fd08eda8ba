pub mod Objects
pub mod Places
pub mod Runs
pub mod Spaces
pub mod Numbers
pub mod Registers
