pub mod Keeping
pub mod Nodes
pub mod Pending
pub mod Settling
pub mod Stacking
pub mod Rows
pub mod Parting
pub mod Weighing
