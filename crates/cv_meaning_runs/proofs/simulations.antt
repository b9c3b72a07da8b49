pub mod Together
pub mod Simulations
pub mod Modes
