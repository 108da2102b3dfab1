-- What the program's functions promise of what they read.
pub mod Input
