pub mod Windows
pub mod Drafts
pub mod Machine
pub mod Histories
pub mod Delivery
pub mod Promises
pub mod Laws
