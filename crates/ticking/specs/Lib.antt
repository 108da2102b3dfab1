-- The step of Tick: document 01, "Steps".
pub mod Ticking
