pub mod BeforeDrain
pub mod BeforeSwitching
