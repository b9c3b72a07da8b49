pub mod Nodes
pub mod terms
pub mod ends
