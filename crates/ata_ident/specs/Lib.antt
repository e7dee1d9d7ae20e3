pub mod Build
pub mod Drive
pub mod Read
pub mod Text
