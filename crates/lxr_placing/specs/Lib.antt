pub mod Opening
pub mod Placing
pub mod Listing
pub mod Trimming
