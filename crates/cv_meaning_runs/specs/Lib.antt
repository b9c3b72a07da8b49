pub mod Moments
pub mod Agreement
pub mod Placed
pub mod Spots
pub mod Simulation
pub mod Replacement
pub mod Listed
pub mod simulations
