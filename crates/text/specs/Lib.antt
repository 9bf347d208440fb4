pub mod Explained
pub mod Gathered
pub mod Logs
pub mod Made
pub mod Operands
pub mod Shown
pub mod Words
pub mod Written
