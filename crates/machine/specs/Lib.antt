-- Document 01, the machine's row of "What is ported": a machine's own numbers, what each call does to them, and a fresh machine.
pub mod Numbers
pub mod Fresh
pub mod Operations
