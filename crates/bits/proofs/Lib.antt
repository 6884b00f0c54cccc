-- What holds of rounding.
pub mod Wrap
pub mod Table
pub mod Once
