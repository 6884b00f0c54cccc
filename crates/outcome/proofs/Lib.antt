-- What holds of the numbers.
pub mod Numbers
pub mod Once
