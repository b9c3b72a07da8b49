pub mod Known
pub mod Texts
pub mod Worked
pub mod terminals
pub mod numbers
