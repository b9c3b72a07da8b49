pub mod Places
pub mod Values
pub mod Branches
pub mod Reworded
pub mod Chances
