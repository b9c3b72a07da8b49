pub mod Assigned
pub mod Games
pub mod Putting
