pub mod Counts
pub mod Sum
