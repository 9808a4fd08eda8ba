pub mod Arguments
pub mod Grammar
pub mod Number
pub mod Options
pub mod Settings
pub mod WordFault
pub mod Ranges
