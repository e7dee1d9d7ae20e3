pub mod Bytes
pub mod Category
pub mod Counts
pub mod Marks
