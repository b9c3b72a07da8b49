pub mod Swaps
pub mod Nodes
pub mod Terms
pub mod Next
pub mod Sizes
pub mod Chances
