-- What holds of snapshot and resume. Runs of pages, the first pass of a snapshot, and the runs said otherwise:
pub mod Joining
pub mod DirtyPages
pub mod SourcePages
pub mod Groups
-- what runs say of each page:
pub mod RunPages
pub mod Counting
pub mod Merged
-- a snapshot's program on lent lists, its second pass, and each way in which the call ends:
pub mod TakenNow
pub mod Writing
pub mod Files
pub mod Answered
-- how many records there are, and that the files read back:
pub mod Bounds
-- resume, step by step, and what its refusals leave:
pub mod Restored
pub mod RestoredRuns
pub mod Resumed
pub mod Refused
-- no second outcome fits a promise:
pub mod Once
