pub mod Heaps
pub mod Telling
pub mod Asking
pub mod Binding
pub mod Working
