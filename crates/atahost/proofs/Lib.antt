pub mod CompletenessLemmas
pub mod GeneratedLemmas
pub mod HeadlineLemmas
mod JournalLemmas
pub mod WovenLemmas
