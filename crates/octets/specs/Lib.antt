pub mod Areas
pub mod Checks
pub mod Numbers
