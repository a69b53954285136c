pub mod Guards
pub mod Bins
pub mod Queue
pub mod Fits
pub mod Rows
pub mod Laws
