pub mod Measures
pub mod Bodies
pub mod Games
