pub mod Page
pub mod Read
