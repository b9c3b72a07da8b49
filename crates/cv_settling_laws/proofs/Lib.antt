pub mod Cells
pub mod Conjuncts
pub mod Derived
mod Indices
pub mod Judged
pub mod Parts
pub mod Places
pub mod Reached
pub mod Rewritten
mod Sites
mod Standings
pub mod Terms
mod Tested
