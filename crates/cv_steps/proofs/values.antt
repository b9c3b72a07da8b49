pub mod Adding
pub mod Orders
pub mod Coefficients
