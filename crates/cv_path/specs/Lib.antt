pub mod Copies
pub mod Places
pub mod Refusals
pub mod Ways
pub mod Worked
