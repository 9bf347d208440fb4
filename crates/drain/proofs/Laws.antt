-- Laws of the columns that the drain is found in, of the array that holds its steps, and of what drain and stop answer.
pub mod Uses
pub mod Order
pub mod Tables
pub mod Steps
pub mod Kernels
pub mod Edits
