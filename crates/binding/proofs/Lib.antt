-- The laws of the lookup, cited by the crates above.
pub mod FindingLaws
pub mod FindingExamples
