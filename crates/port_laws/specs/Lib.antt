pub mod Ending
pub mod Judgements
pub mod Links
pub mod Once
pub mod Silent
pub mod Statuses
pub mod Success
pub mod Tags
