pub mod Carried
pub mod Turns
pub mod Runs
pub mod Lists
pub mod Phases
pub mod Passes
pub mod Settles
