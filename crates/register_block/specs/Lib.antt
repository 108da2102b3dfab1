-- The register block: its fields, what replies do to it, what a register shows and what a write to one does.
pub mod Layout
pub mod Fields
pub mod Kinds
pub mod Events
pub mod Shown
pub mod Written
