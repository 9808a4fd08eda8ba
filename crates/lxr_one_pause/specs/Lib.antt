pub mod Steps
pub mod Deciding
pub mod Pausing
pub mod Settling
pub mod Tracing
pub mod Opened
pub mod Relocating
pub mod Telling
