pub mod Lines
pub mod Replies
pub mod Orders
pub mod Reports
pub mod Histories
pub mod Summary
pub mod Pages
pub mod Laws
