-- The port with its registers: what the host lends, what replies do to the register block, the calls, the register accesses, the counts of a stream, and
-- the lookup.
pub mod Lent
pub mod Notes
pub mod Calls
pub mod Accesses
pub mod StreamCounts
pub mod PortLookup
