-- Document 01, "Rounding and pages": rounding.
pub mod Rounding
