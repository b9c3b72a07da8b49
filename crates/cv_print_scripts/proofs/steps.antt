mod Files
mod Good
mod Heads
pub mod Outer
mod Phrases
pub mod Rows
