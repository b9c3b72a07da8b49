pub mod Stacks
pub mod Callers
pub mod Drawings
pub mod Scopes
