-- What the functions' proofs cite, and those of the crates above.
pub mod Arrays
pub mod Edits
pub mod Entered
pub mod Handed
pub mod Insertion
pub mod Interface
pub mod Lifecycle
pub mod Links
pub mod Ports
pub mod Rows
pub mod Stored
pub mod Targets
