pub mod Desks
pub mod Held
pub mod Moves
pub mod PassesHeld
pub mod Stiles
pub mod Walks
pub mod Weave
