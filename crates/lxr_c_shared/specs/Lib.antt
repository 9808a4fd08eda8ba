pub mod Holding
pub mod Lending
pub mod Sharing
pub mod Passing
pub mod Crossing
pub mod Ending
pub mod Trimming
