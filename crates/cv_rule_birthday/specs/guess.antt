pub mod Guessing
pub mod Looks
pub mod Needs
pub mod Row
pub mod Worked
