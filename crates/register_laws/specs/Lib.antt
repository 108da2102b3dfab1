-- What is said of lists of calls and register accesses on one port.
pub mod Uses
pub mod Happenings
pub mod History
pub mod Alike
pub mod Controls
pub mod Guaranteed
pub mod Cases
pub mod Says
