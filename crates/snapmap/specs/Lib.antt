-- What an argument asks for.
pub mod Numerals
