-- What the proofs of the crate's functions cite.
pub mod Reasons
