-- What is proved of an argument, and of what is written.
pub mod Drawn
pub mod Numerals
