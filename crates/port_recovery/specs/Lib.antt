pub mod Findings
pub mod FinishByTag
pub mod Places
pub mod Reading
pub mod Recoverable
pub mod Tallies
