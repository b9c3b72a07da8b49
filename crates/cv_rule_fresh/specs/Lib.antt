pub mod collisions
pub mod Looks
