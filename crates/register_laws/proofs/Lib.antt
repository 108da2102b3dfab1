-- The laws of lists of calls and register accesses, cited by the crates above.
pub mod NoteLaws
pub mod FollowLaws
pub mod RuleLaws
pub mod FieldLaws
pub mod SinceLaws
pub mod HistoryLaws
pub mod OpenedLaws
pub mod Histories
pub mod GuaranteedLaws
pub mod AlikeLaws
pub mod ControlLaws
pub mod QuickRegisters
pub mod ReadLaws
pub mod ClaimCases
