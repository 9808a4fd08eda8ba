pub mod ByName
pub mod NameSets
pub mod Leading
pub mod Dying
