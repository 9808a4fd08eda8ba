pub mod LastPauses
pub mod Fields
pub mod Positions
pub mod Stages
