pub mod Marked
pub mod Powers
