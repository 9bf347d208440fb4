-- The theorems about kernel values.
pub mod Reached
