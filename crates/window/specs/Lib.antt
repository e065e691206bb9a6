pub mod Marks
pub mod Receivers
pub mod Seen
pub mod Senders
