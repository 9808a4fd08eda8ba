pub mod Homes
pub mod Wanting
pub mod Living
pub mod Stations
pub mod Arriving
pub mod Gathering
pub mod Running
