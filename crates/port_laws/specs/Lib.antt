-- Lists of calls on one port, what a call counts as in them, and document 01's cases C1 to C12.
pub mod Lists
pub mod Counting
pub mod Cases
