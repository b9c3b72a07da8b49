mod Copies
mod Spots
mod Nodes
mod Sites
mod Keys
pub mod Runs
