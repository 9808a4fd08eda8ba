pub mod HandingOut
pub mod Safepoint
pub mod Cause
