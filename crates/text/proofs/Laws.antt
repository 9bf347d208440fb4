-- Laws of text in a buffer.
pub mod Shown
pub mod Writes
pub mod Written
