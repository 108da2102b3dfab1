-- The laws of fitness, cited by the crates above.
mod GatherLaws
mod ArrayLaws
mod AllLaws
pub mod TestLaws
pub mod FitLaws
pub mod RepeatExamples
pub mod DrainCases
