-- The laws of what the steps share, cited by the crates above.
pub mod OutcomeLaws
pub mod RoleLaws
