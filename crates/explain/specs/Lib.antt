pub mod Explanations
pub mod Nodes
