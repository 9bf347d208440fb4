-- What the proofs of kernels of any sizes cite.
pub mod Sound
pub mod Rows
pub mod Anew
pub mod Nodes
pub mod Targets
pub mod Declarations
