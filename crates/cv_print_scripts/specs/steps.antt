pub mod Apart
pub mod Shown
pub mod Trees
