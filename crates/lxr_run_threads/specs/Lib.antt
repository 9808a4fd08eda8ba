pub mod Dealing
pub mod Working
pub mod Helping
pub mod Running
pub mod Keeping
pub mod Standing
