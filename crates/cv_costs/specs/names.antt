pub mod Naming
pub mod Reach
