pub mod Drains
pub mod Order
pub mod Uses
