pub mod Branches
pub mod Pairs
pub mod Scopes
