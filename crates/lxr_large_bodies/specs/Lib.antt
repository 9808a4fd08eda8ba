pub mod Bodies
pub mod Blocks
pub mod Entries
pub mod Kept
