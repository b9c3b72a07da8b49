pub mod Alike
pub mod Tapes
pub mod Sums
pub mod Secrets
