pub mod Passing
pub mod Rule
pub mod Seats
