pub mod Aborting
pub mod Finding
pub mod Issuing
