pub mod Games
pub mod Numbers
pub mod Terms
