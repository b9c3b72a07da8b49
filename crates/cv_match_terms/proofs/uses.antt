pub mod Joining
pub mod Walked
