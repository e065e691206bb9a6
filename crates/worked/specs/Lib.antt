pub mod Worked
pub mod Links
pub mod Verdicts
pub mod Cases
