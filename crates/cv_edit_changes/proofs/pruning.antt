pub mod Branches
pub mod Constructs
pub mod Games
