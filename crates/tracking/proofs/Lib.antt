-- What holds of sources and tracking. Laws of each call, which the proofs of the functions cite:
pub mod Lengths
pub mod InTurn
pub mod Passed
pub mod Groups
pub mod Lookup
pub mod PageRecords
pub mod TrackPages
pub mod UntrackPages
pub mod ContextSteps
pub mod ContextStore
pub mod MarkProgram
-- no second outcome fits a promise:
pub mod Once
-- the calls as calls on the whole machine:
pub mod OnMachine
