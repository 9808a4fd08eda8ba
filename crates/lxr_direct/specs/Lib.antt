pub mod Operating
pub mod Recording
pub mod Known
pub mod Trying
pub mod Through
