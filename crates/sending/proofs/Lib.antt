-- The laws of Transmit, cited by the crates above.
pub mod SendLaws
