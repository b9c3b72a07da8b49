pub mod Moving
pub mod Rows
pub mod Steps
pub mod Parts
pub mod Bodies
pub mod Plans
pub mod Worked
pub mod merge
