pub mod Dropping
pub mod Sizes
