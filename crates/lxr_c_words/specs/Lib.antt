pub mod Words
pub mod Looking
pub mod Writing
pub mod Making
