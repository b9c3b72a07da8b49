pub mod Bodies
pub mod Lefts
