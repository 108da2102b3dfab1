-- The step of Arrive(s, a, tag): document 01, "Steps".
pub mod Arriving
