mod AbortLemmas
mod AlwaysLemmas
mod FindingLemmas
