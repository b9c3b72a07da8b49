pub mod Named
pub mod Worked
pub mod answers
pub mod instances
pub mod names
pub mod functions
