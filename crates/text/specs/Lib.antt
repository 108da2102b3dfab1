-- Text in ASCII: numbers, lines, and the page that they are written onto.
pub mod Digits
pub mod Lines
pub mod Pages
