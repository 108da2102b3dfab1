-- Lists of calls that show demand 3 at work, and what it says of them.
pub mod Examples
pub mod Shown
pub mod LeftOpen
pub mod Withdrawn
pub mod AddUp
pub mod Derived
pub mod WithdrawnShown
pub mod DrainingSays
pub mod LongFrames
