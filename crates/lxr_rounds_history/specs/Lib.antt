pub mod Plan
pub mod Tally
pub mod Histories
pub mod Left
pub mod Sights
pub mod Growing
