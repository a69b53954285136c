pub mod List
pub mod Get
pub mod Undo
pub mod Keep
pub mod Sweep
