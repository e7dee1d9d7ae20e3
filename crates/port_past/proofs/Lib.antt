pub mod BesideSlots
pub mod EachAt
pub mod JudgedSizes
pub mod KnownCommands
pub mod LeavingSlots
pub mod PlaceLemmas
pub mod PlaceSizes
pub mod Sizes
