pub mod Factors
pub mod Large
pub mod Collisions
pub mod Copies
pub mod Certificates
pub mod wording
pub mod quiet
pub mod names
