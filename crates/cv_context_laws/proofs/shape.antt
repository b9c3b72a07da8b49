pub mod Terms
pub mod Games
pub mod Scoped
