pub mod Walk
pub mod Worked
