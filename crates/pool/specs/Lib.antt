pub mod Entries
pub mod Pools
