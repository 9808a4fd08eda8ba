pub mod Answering
pub mod Helpers
pub mod Observing
pub mod Pausing
pub mod Ending
pub mod Serving
pub mod Following
pub mod Turns
