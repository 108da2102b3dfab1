-- The laws of the port with its registers, cited by the crates above.
pub mod PartLaws
pub mod FrameLaws
pub mod WayLaws
pub mod AccessLaws
pub mod CountLaws
pub mod RegisterCases
