mod Patterns
pub mod Rows
