-- The step of Best effort(a, tag): document 01, "Steps".
pub mod BestEffort
