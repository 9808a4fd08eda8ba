pub mod Served
pub mod Wide
