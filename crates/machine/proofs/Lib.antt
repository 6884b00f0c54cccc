-- What holds of the machine's calls: laws that the proofs of the functions cite,
pub mod Laws
-- and that no second outcome fits a promise.
pub mod Once
