pub mod Sites
pub mod Stores
pub mod Terms
pub mod Between
pub mod Costs
