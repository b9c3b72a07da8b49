pub mod Orders
pub mod Values
pub mod Worked
