pub mod Pools
pub mod Turning
pub mod Lines
pub mod Resetting
pub mod Ending
pub mod PoolLines
