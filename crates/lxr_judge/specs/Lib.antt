pub mod Evidence
pub mod Taking
pub mod Passing
pub mod Verdicts
pub mod Laws
pub mod Ahead
pub mod Progress
pub mod Standing
