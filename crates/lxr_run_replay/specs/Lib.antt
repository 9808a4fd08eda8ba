pub mod Replaying
pub mod Finishing
pub mod Working
pub mod Recording
