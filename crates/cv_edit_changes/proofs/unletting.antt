pub mod Assignments
mod Names
mod Phrases
mod PutTrees
pub mod Reading
pub mod Substituted
mod Unletting
