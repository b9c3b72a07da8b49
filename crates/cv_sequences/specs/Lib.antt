pub mod Sequences
pub mod Chains
pub mod secrets
pub mod files
