pub mod Following
pub mod Fields
pub mod Recording
pub mod Steps
pub mod Calling
pub mod Making
pub mod Applying
pub mod Clearing
