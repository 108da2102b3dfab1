-- Bind, and the lookup of a pair among the bindings.
pub mod Binding
pub mod Finding
pub mod LookupClaims
