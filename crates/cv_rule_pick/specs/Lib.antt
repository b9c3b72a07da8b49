pub mod Picking
pub mod Row
pub mod Needs
pub mod Looks
pub mod Reach
pub mod Wanted
pub mod Stages
