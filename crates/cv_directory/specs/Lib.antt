pub mod Definitions
pub mod Tables
pub mod Worked
pub mod Live
