pub mod Chains
pub mod Needs
