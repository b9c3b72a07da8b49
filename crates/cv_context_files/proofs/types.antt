pub mod Rows
pub mod Files
