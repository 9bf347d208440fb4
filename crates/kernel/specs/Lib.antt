pub mod Fields
pub mod Outcomes
pub mod Reached
pub mod Links
pub mod Ports
