pub mod Counts
pub mod Entries
pub mod Pages
pub mod Words
