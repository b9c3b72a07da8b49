pub mod Guards
pub mod Branches
pub mod Alike
pub mod Placed
