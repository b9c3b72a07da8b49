pub mod Places
pub mod Sums
pub mod Texts
pub mod closings
pub mod costs
