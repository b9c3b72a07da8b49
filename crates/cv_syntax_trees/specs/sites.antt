pub mod Sites
pub mod Pairs
pub mod Counting
pub mod Sorts
