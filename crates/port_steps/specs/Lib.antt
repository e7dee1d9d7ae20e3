pub mod Asked
pub mod Awaited
pub mod Taken
