-- Whether the host's record and memory will do: document 01, refusals 18 and 19.
pub mod Clauses
pub mod Fit
