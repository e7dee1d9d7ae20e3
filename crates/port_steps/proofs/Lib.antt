pub mod AwaitedLemmas
pub mod DispatchLemmas
pub mod FoundLemmas
pub mod IrqLemmas
pub mod OutlineLemmas
