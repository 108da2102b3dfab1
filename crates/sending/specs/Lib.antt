-- The step of Transmit: document 01, "Steps".
pub mod Sending
