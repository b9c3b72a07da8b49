pub mod Definitions
pub mod Facts
pub mod Promises
pub mod Walks
