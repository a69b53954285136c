pub mod Quiet
pub mod Noting
pub mod Stepping
pub mod Resets
pub mod Held
pub mod Reading
pub mod Calls
