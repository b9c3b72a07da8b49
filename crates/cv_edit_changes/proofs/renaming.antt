pub mod Chains
pub mod Counted
pub mod Renamed
