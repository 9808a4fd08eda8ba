pub mod Run
pub mod Left
pub mod Sums
pub mod Texts
