pub mod Traces
pub mod Making
pub mod Gathering
pub mod Paying
pub mod Telling
pub mod Ending
pub mod Runs
