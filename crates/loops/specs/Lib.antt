pub mod Columns
pub mod InPlace
pub mod Limits
pub mod Chains
pub mod Marks
pub mod Passes
