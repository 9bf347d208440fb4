-- The claim about every kernel value.
pub mod Explained
