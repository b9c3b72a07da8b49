pub mod Phases
pub mod moves
