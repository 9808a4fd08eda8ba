pub mod Appending
pub mod OldValues
pub mod Queueing
pub mod Entries
pub mod Counting
