-- Document 01, "Snapshot and resume", in its order: the runs of a snapshot, how it is made, and resume.
pub mod Runs
pub mod Walk
pub mod MakeSnapshot
pub mod Resume
pub mod Answers
