pub mod AddLemmas
pub mod WalkLemmas
