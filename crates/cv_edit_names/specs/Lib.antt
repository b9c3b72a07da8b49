pub mod Naming
pub mod Cells
pub mod Splitting
pub mod Parts
pub mod Sizes
pub mod Kept
pub mod Needs
