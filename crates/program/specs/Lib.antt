-- Calls as programs, and layers of them.
pub mod Program
pub mod Layers
