pub mod Claimed
pub mod Secrecy
pub mod Left
pub mod kinds
pub mod pairs
