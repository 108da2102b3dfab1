-- The capture file: its records and chains, what of it is refused, and what the code answers.
pub mod File
pub mod Checks
pub mod Kinds
pub mod Answers
