pub mod AloneLemmas
pub mod CalmLemmas
pub mod FewPorts
pub mod RoundLemmas
pub mod SettleLemmas
pub mod SettledPorts
pub mod TakenSteps
pub mod VersionLemmas
