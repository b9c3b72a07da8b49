pub mod Standing
pub mod Deciding
