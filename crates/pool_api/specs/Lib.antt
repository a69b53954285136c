pub mod Heaps
pub mod Tables
