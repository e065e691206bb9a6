pub mod Answers
pub mod Orders
pub mod Ozones
pub mod Plain
pub mod Readings
pub mod Winds
