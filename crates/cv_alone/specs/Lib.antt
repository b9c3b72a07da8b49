pub mod Parts
pub mod Alone
pub mod Sizes
pub mod Worked
