-- The laws of the register block, cited by the crates above.
pub mod BlockLaws
pub mod ZeroLaws
pub mod WrittenLaws
pub mod LineLaws
pub mod BlockCases
