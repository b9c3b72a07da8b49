mod Congruent
mod Equations
pub mod Known
mod Listing
pub mod Phrased
mod Sighted
mod Typed
