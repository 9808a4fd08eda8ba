pub mod Turning
pub mod Relaying
pub mod Working
