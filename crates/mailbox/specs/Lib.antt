pub mod Boxes
pub mod Mailing
