pub mod Games
pub mod Refusals
pub mod Rewritings
