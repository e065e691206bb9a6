pub mod TightLaws
pub mod Kept
