-- The laws of a frame's header, cited by the crates above.
pub mod HeaderLaws
pub mod HeaderCases
