pub mod Adjacent
pub mod Lists
pub mod Row
pub mod Needs
pub mod Site
pub mod Standing
pub mod Worked
pub mod kept
