pub mod Comparing
pub mod Conditions
pub mod Row
pub mod Needs
pub mod Chosen
pub mod Worked
pub mod guess
