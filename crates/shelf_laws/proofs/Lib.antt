pub mod Far
pub mod Words
pub mod Taking
pub mod Stocks
pub mod Jobs
pub mod Keeps
pub mod Examples
