pub mod Tuples
pub mod Drawn
pub mod Below
pub mod Pairs
pub mod Runs
pub mod Assigned
