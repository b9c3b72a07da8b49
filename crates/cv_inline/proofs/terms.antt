pub mod Pushes
pub mod Scoping
pub mod InGame
