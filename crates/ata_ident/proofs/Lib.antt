pub mod Pairs
pub mod Parts
pub mod ReadBack
pub mod Texts
pub mod Words
