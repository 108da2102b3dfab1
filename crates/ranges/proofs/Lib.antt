-- The laws of the ranges, cited by the crates above.
pub mod RangeLaws
pub mod RangeCases
