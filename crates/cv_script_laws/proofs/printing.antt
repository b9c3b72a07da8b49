pub mod Back
pub mod Files
pub mod Good
pub mod Levels
pub mod Scripts
pub mod Trees
mod WrittenRows
