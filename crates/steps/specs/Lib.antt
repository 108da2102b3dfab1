-- What the steps of a port share: a call as one value, the outcome of a call, the roles of the queues, a stream moved.
pub mod Call
pub mod Outcome
pub mod Roles
pub mod Moves
