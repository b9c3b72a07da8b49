pub mod Games
pub mod Found
pub mod Instances
pub mod Keys
pub mod Alike
