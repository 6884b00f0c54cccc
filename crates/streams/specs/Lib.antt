-- What a call that ended with an error had read or written.
pub mod Fronts
