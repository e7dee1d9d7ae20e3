pub mod HeldTags
pub mod Kept
pub mod Marked
pub mod Picked
pub mod Stored
pub mod Told
pub mod Written
