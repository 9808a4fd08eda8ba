pub mod Sharing
pub mod Ends
