pub mod Evacuation
pub mod Stages
pub mod Steps
