-- Document 01, "Record file", in its order: words, records, the form of a file, and the snapshot that two files hold; then a reader's
-- position, and the records that it has left.
pub mod Words
pub mod Records
pub mod Form
pub mod Snapshots
pub mod Reader
