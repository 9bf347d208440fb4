-- Laws of loops over tables of any size.
pub mod Scan
pub mod Columns
pub mod Scanning
pub mod Collecting
pub mod Flags
pub mod Filled
pub mod Resolving
pub mod Marking
pub mod Passes
pub mod Distinct
pub mod Chains
pub mod InPlace
pub mod Compacting
pub mod Edit
