pub mod Bodies
pub mod Visited
pub mod Events
