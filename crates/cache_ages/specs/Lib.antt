pub mod CacheSteps
pub mod Laws
pub mod Times
