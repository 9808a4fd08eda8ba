pub mod HelperStepping
pub mod DecrementerShowing
pub mod DecrementerStepping
pub mod TracerShowing
pub mod TracerStepping
