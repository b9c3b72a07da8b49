pub mod Keys
pub mod Nodes
pub mod PieceParts
