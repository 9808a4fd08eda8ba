pub mod Places
pub mod Keeps
pub mod Turns
pub mod Ends
pub mod Units
