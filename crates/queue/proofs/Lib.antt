-- The laws of frames in memory and of queues, cited by this crate's proofs and by the crates above.
pub mod PlaceLaws
pub mod WaitingLaws
