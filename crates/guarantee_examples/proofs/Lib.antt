-- What the examples show, and what demand 3 says of them, proved.
pub mod LinkTest
pub mod OffersTest
pub mod StaysTest
pub mod ExamplesHappen
pub mod ExamplesShow
pub mod OpenPartsHappen
pub mod AddUp
pub mod Applied
pub mod Derived
pub mod TheoremsSay
pub mod Quickly
pub mod WithdrawnHappen
pub mod WithdrawnShow
pub mod WithdrawnSays
pub mod DrainingSays
pub mod LongFrames
