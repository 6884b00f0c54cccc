-- Document 01, "Rounding and pages", in its order: pages and flags, lent storage, the operations that calls are made of,
-- sparse and W^X calls, what a call answers, and what a caller sees.
pub mod Pages
pub mod Storage
pub mod Operations
pub mod Sparse
pub mod WXorX
pub mod Answers
pub mod Lent
pub mod Inner
pub mod Ready
pub mod View
pub mod Calls
