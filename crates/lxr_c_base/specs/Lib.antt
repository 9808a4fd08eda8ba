pub mod Codes
pub mod Requests
