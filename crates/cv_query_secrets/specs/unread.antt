pub mod Exchanged
pub mod Worked
