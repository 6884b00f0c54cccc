-- Document 01, "Numbers that a call answers".
pub mod Numbers
pub mod Meanings
