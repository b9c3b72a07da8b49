pub mod Branches
pub mod Steps
pub mod Sets
pub mod Scans
pub mod Walks
