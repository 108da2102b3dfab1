pub mod LineLaws
pub mod PlayLaws
pub mod ExamplesPrint
