-- Document 01, "Sources and tracking", in its order: sources, page records, the operations that calls are made of, the calls, and
-- what a call answers.
pub mod Sources
pub mod Records
pub mod Operations
pub mod Tracking
pub mod Answers
