pub mod Bits
pub mod Clearing
pub mod HbaView
pub mod StandingCauses
pub mod Tags
pub mod TagView
