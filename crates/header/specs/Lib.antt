-- A frame by its octets: its charge, and what Frame reads of its header.
pub mod Header
