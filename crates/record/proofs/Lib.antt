-- The laws of the record's fields, cited by the crates above.
pub mod QueueLaws
pub mod HeadLaws
pub mod EntryLaws
pub mod HeadPairs
pub mod EntryPairs
pub mod KeepLaws
pub mod OpenPairs
pub mod DropPairs
pub mod DrainPairs
pub mod BindingPairs
pub mod BesideLaws
pub mod PairLaws
pub mod QueueCases
pub mod DrainCases
