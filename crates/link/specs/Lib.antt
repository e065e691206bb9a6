pub mod Replies
pub mod Ends
pub mod Acts
pub mod Links
pub mod Lives
pub mod Courses
pub mod Settling
