pub mod Damages
pub mod Hears
pub mod ReadLaws
pub mod Seals
pub mod Smallest
pub mod Trips
pub mod Turns
