pub mod Deciding
pub mod Calls
