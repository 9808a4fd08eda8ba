pub mod Words
pub mod Lines
pub mod Form
pub mod Gathering
