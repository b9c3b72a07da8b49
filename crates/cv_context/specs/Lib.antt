pub mod Roles
pub mod Written
pub mod indices
pub mod nodes
pub mod products
