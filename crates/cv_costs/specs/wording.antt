pub mod Changing
pub mod Facts
