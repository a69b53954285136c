pub mod Shifts
pub mod Places
pub mod Chains
pub mod Parts
