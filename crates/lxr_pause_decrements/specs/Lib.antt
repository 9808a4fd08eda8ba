pub mod Wipe
pub mod Cascade
pub mod Steps
pub mod Finishing
pub mod Opened
pub mod Handled
pub mod Slices
pub mod SliceSteps
