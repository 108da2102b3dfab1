-- Each call's own refusals, in document 01's order, and then its step.
pub mod Refusals
pub mod FrameRefusals
pub mod Becoming
pub mod Table
