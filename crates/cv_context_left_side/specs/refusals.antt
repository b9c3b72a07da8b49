pub mod Reducible
pub mod Worked
