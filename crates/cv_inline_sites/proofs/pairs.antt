pub mod Branching
pub mod Copies
pub mod Tuples
