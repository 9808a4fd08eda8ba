pub mod Repeating
pub mod Serving
