-- What C functions hand out.
pub mod Handed
