pub mod Faults
pub mod pruning
pub mod unletting
pub mod renaming
