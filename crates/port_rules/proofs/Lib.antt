pub mod Frames
pub mod RecoverByPhase
pub mod Settling
pub mod TagByTag
pub mod Views
