-- The laws of the numbers, cited by the crates above.
pub mod NumberLaws
