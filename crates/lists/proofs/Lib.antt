-- The laws of the definitions in specs/, cited by the crates above.
pub mod WindowLaws
pub mod TurnLaws
pub mod EqualLaws
pub mod Order
pub mod EachLaws
