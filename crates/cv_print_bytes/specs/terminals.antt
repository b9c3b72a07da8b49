pub mod Levels
pub mod Parts
pub mod Signs
pub mod Told
pub mod Worked
pub mod Written
