-- The request's cases, and what demand 3 and the theorems of the registers say of lists with register accesses.
pub mod CasesHold
pub mod HistoriesSay
pub mod ControlledSays
pub mod CrowdedSays
