pub mod ComingLemmas
