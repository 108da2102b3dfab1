-- The port record in lent octets: document 01, "State of a port", field by field.
pub mod Layout
pub mod Queues
pub mod Head
pub mod Entry
pub mod Reservations
pub mod PairNumber
