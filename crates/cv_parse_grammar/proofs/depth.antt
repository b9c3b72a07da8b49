mod Agreement
mod Beginning
pub mod Files
pub mod Fitting
pub mod Laws
mod Meeting
mod Parentheses
mod Readers
pub mod Standing
mod Uniqueness
