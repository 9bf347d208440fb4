-- Laws of the columns that the list is found in.
pub mod Uses
pub mod Kernels
