-- A frame in its place of the lent memory, and a queue of frames in its part: document 01, "State of a port".
pub mod Place
pub mod Ring
pub mod Waiting
