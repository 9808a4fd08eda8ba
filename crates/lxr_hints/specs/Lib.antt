pub mod Joined
pub mod Journals
pub mod Rules
pub mod Sharing
pub mod Taking
