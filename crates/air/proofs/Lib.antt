pub mod Nth
pub mod Places
pub mod StepLaws
pub mod FineLaws
pub mod Rows
pub mod Tallies
pub mod Kept
pub mod HistoryLaws
