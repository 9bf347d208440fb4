-- What the proofs of the player's functions cite.
pub mod Answers
pub mod Lent
pub mod Playing
pub mod Runs
pub mod Shifts
pub mod Turns
pub mod Words
