-- What the program compares, and what it says of that.
pub mod Alike
pub mod Said
