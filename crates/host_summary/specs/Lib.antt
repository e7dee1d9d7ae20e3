pub mod Summary
pub mod Sums
pub mod Tally
pub mod Worked
