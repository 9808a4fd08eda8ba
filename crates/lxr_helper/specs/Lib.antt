pub mod Pockets
pub mod Words
pub mod Looks
pub mod Units
pub mod Indexes
pub mod Helpers
pub mod HelperLaws
pub mod HelperUnits
