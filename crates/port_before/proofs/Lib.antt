pub mod Due
pub mod Struck
pub mod Undrained
