-- The laws of the gates, cited by the crates above.
pub mod GateLaws
pub mod FrameGateLaws
pub mod TestLaws
pub mod NumberLaws
pub mod GateNeeds
pub mod TableLaws
pub mod TableCases
