pub mod Lanes
pub mod Sealing
pub mod Window
