pub mod Changes
pub mod Fronts
pub mod Heads
pub mod Numbers
pub mod Sums
