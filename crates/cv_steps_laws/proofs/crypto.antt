pub mod Sorts
pub mod Accepted
