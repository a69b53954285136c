pub mod Cached
pub mod Heaps
pub mod Laws
pub mod Records
pub mod Rolls
pub mod Slabs
