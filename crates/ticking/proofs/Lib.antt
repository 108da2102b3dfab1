-- Tick by cases.
pub mod DrainCases
