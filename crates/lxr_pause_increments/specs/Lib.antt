pub mod Moving
pub mod Traced
pub mod Entering
pub mod Increments
pub mod Accounted
pub mod Raising
pub mod Promotion
pub mod Steps
