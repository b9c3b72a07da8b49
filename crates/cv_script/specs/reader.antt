pub mod Scripts
pub mod Stages
pub mod Trees
