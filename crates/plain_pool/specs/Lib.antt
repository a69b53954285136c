pub mod Bins
pub mod Marks
pub mod Slabs
pub mod Pool
pub mod Held
