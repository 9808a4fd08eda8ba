pub mod Promotion
pub mod Copying
pub mod Shortages
pub mod Either
