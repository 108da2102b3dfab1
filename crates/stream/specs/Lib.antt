-- The rules of one stream, in document 01's order: its state, its steps, its replies, and the stream by itself over a list of events.
pub mod State
pub mod Steps
pub mod Replies
pub mod Alone
pub mod Cases
