-- What demand 3 says of a list of calls, and what is proved beyond it.
pub mod Events
pub mod Claims
pub mod Demand3
pub mod Own
pub mod Beyond
pub mod Withdrawal
pub mod Instances
pub mod Draining
