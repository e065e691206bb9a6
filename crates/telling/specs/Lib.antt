pub mod Headlines
pub mod Telling
