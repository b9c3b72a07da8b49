pub mod Counts
pub mod Settings
pub mod Games
