-- The ranges of document 01's numbers.
pub mod Ranges
