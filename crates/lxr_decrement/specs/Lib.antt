pub mod Decrementing
pub mod Words
pub mod Phases
pub mod Steps
pub mod Units
pub mod Decrementers
pub mod Laws
pub mod Lawful
