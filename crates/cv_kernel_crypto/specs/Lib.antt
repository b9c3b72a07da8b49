pub mod Faults
pub mod Applied
pub mod Roles
pub mod Stages
