pub mod DigitLaws
pub mod LineLaws
pub mod PageLaws
