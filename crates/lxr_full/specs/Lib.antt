pub mod Touched
pub mod TouchedLaws
pub mod Taken
pub mod Room
pub mod Kept
