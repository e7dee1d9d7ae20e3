pub mod Six
pub mod Spread
pub mod Top
