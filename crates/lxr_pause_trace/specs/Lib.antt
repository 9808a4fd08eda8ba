pub mod Tracing
pub mod Marking
