-- The replay of a capture as text.
pub mod Events
pub mod Output
pub mod Quick
