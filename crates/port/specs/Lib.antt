-- The calls of a port: document 01's checks in their order, then the step.
pub mod Calls
pub mod Quick
pub mod Long
pub mod Enough
