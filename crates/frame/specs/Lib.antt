pub mod Causes
pub mod Formats
pub mod Reads
pub mod Trips
pub mod Writes
