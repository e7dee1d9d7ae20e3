pub mod Commands
pub mod DriveParts
pub mod LedgerView
pub mod LiveFlags
pub mod Parts
pub mod QueueParts
pub mod Sound
pub mod Tracks
