pub mod Broken
pub mod Decided
pub mod Entries
pub mod Places
pub mod Reading
