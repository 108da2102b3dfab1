-- The laws of the stream rules, over any last place, cited by this crate's proofs and by the crates above.
pub mod ArriveLaws
pub mod TickLaws
pub mod FitLaws
pub mod Room
pub mod Used
pub mod AloneLaws
pub mod CasesHold
pub mod RoomExamples
pub mod AnswerLaws
