pub mod Names
pub mod Closed
