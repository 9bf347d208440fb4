pub mod Affected
pub mod Uses
