pub mod State
pub mod Step
pub mod Renewing
pub mod History
pub mod Full
pub mod Pauses
