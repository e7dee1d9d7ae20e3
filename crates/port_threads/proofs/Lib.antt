pub mod ActorSteps
pub mod CalmRuns
pub mod Crowds
pub mod Ends
pub mod Journals
pub mod Lines
pub mod Rows
