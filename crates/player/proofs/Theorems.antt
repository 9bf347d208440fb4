-- The claims about every log, and the samples.
pub mod Samples
pub mod Shifts
