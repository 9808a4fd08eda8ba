pub mod Running
pub mod Operations
pub mod Sides
pub mod Plans
pub mod Elements
pub mod Own
