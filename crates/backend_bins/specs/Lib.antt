pub mod Bin
pub mod Blocks
pub mod Cut
pub mod Laws
pub mod Scan
