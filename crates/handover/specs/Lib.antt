-- What a caller sees of a machine, and the calls on it as data:
pub mod View
pub mod Calls
-- "reached from fresh by our calls", "Sound":
pub mod Reached
pub mod Sound
-- which calls keep a machine sound:
pub mod Keeping
-- the handover theorem:
pub mod Hosts
pub mod Theorem
-- what the theorem speaks of, and that each call is what its promise says:
pub mod Meant
pub mod Promised
