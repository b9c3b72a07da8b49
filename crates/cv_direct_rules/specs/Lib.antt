pub mod Linked
pub mod Direct
pub mod Worked
