pub mod Before
pub mod Depth
pub mod Files
