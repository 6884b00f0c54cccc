-- The laws of `words`, for the crates above too.
pub mod Patch
pub mod Written
pub mod LittleEndian
pub mod Std
pub mod Filled
pub mod RoundTrip
pub mod Once
pub mod Table
