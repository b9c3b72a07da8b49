pub mod Pruning
pub mod Rewriting
