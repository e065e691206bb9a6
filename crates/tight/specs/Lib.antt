pub mod Tightened
pub mod Tights
pub mod SameList
