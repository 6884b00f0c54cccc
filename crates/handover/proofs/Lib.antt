-- What holds across calls: well-formed storage, what is seen, and which numbers are answered:
pub mod WellFormed
pub mod Seen
pub mod Ends
pub mod Replies
pub mod Numbers
pub mod Told
-- document 01's table:
pub mod Table
-- programs that ask operations of one kind, and what stores and tracking come to on the view:
pub mod Asks
pub mod CallsAsk
pub mod Effects
pub mod Storing
pub mod Filling
pub mod Tracked
-- what an item of the sources gives for several pages:
pub mod SourceData
-- a snapshot's runs restored on a blank memory:
pub mod RestoredRun
pub mod Restoring
-- machines that our calls reach:
pub mod Reaching
pub mod InTypes
-- which calls keep a machine sound:
pub mod Gentle
pub mod Steps
pub mod KeptTracking
pub mod KeptStores
pub mod KeptSources
pub mod KeptInit
pub mod Kept
pub mod NotKept
-- the handover theorem:
pub mod Agreeing
pub mod Theorem
pub mod Meant
-- each call is what its promise says:
pub mod Promised
