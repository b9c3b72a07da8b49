pub mod Broken
pub mod Finds
pub mod Tables
pub mod Typed
pub mod Counted
pub mod WorkedTyping
pub mod Queries
