pub mod Settling
pub mod Worked
