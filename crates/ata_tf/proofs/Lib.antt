pub mod ByteLemmas
pub mod FrameLemmas
