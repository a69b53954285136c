pub mod Asking
pub mod Gaps
pub mod Numbers
pub mod Obtaining
pub mod Offices
pub mod Placing
