pub mod Allowed
pub mod Device
pub mod Judgements
pub mod Moments
pub mod Once
pub mod Open
pub mod Reached
pub mod Stamps
