pub mod Scripts
pub mod Slots
pub mod States
pub mod Making
pub mod Lines
pub mod Ending
pub mod Runs
