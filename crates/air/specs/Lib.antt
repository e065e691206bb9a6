pub mod Waiting
pub mod Steps
pub mod Places
pub mod Histories
