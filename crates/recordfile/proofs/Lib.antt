-- What holds of record files. A file's words, and its records:
pub mod FileWords
pub mod FileRecords
-- the functions:
pub mod Decoding
pub mod Judging
pub mod WholeFile
pub mod Once
-- a snapshot's records and pages, and the file statement both ways:
pub mod SnapshotRecords
pub mod SnapshotForm
pub mod SnapshotRanged
pub mod RoundTrip
-- examples, Session A's among them:
pub mod Examples
