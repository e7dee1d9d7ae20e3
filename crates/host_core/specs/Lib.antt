pub mod Calm
pub mod Hosting
pub mod Settled
pub mod Versions
pub mod Worked
