pub mod Bucket
pub mod Chain
pub mod Inside
pub mod KindTree
pub mod Nodes
pub mod PoolView
pub mod names
