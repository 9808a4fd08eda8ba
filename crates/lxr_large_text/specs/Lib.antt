pub mod Operations
pub mod Reading
pub mod Limits
pub mod Replies
pub mod Histories
pub mod Texts
pub mod Growing
