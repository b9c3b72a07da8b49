pub mod Known
pub mod Parted
pub mod Texts
pub mod Worked
pub mod steps
