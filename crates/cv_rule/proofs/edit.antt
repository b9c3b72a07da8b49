pub mod Pruned
pub mod Unlet
