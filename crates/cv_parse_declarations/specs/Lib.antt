pub mod Choices
pub mod Sequences
pub mod Blocks
pub mod Files
pub mod signature
