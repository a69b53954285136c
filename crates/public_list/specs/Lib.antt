pub mod Ending
pub mod Joining
pub mod Looking
pub mod Posting
