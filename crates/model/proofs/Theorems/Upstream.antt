-- What the original's contracts say, clause by clause, of the commands here; docs/CONTRACTS.md cites it by name.
pub mod Replies
pub mod Frames
pub mod Subjects
pub mod Changes
pub mod Observed
pub mod Accepted
pub mod Begin
pub mod UpdateNode
pub mod Kernels
pub mod Identities
pub mod CheckInsert
pub mod Updated
pub mod Recorded
