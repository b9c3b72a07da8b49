pub mod Flat
pub mod Rows
pub mod Comes
pub mod Testable
pub mod Pruned
pub mod Places
pub mod Rewritten
pub mod Sizes
