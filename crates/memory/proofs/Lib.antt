-- What holds of the memory. Laws of one page and of each call, which the proofs of the functions cite:
pub mod Refused
pub mod Lengths
pub mod Lent
pub mod Stored
pub mod OnePage
pub mod MadeReady
pub mod Store
pub mod Fill
pub mod Span
pub mod Loads
pub mod Text
pub mod PageIndices
pub mod Flags
pub mod Fresh
pub mod WriteOrExecute
pub mod ShortPath
-- no second outcome fits a promise:
pub mod Once
pub mod Own
-- what holds across calls: well-formed storage, which numbers are answered, and what is seen:
pub mod StoreCases
pub mod WellFormed
pub mod Placed
pub mod Replies
pub mod Dirty
pub mod Numbers
pub mod Seen
pub mod Told
-- document 01's table:
pub mod Table
