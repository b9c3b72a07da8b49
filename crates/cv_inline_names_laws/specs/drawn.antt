pub mod Named
pub mod Worked
