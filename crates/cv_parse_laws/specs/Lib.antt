pub mod Blocks
pub mod Shapes
pub mod Words
pub mod roles
