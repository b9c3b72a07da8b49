pub mod Above
pub mod Assigned
pub mod Positions
pub mod OneBody
