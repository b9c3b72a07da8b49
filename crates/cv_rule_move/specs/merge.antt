pub mod Merging
pub mod Row
pub mod Looks
pub mod Site
pub mod Worked
