-- The claim about sound kernels.
pub mod Stops
