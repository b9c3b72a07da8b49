pub mod Levels
pub mod Bodies
pub mod Functions
