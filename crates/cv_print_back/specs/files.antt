pub mod Back
pub mod Worked
