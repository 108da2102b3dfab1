-- How the exports hand over a reply.
pub mod Handed
