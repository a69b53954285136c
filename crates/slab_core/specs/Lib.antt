pub mod Headers
pub mod PrivateLists
pub mod Slabs
