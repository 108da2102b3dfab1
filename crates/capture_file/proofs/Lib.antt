pub mod ChainLaws
pub mod FileLaws
pub mod KindCases
