mod Framing
mod Putting
mod Written
mod Walking
pub mod Lengths
