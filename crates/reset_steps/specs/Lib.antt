pub mod Strip
pub mod Seek
pub mod Evict
pub mod Clear
pub mod Unqueue
pub mod Unite
