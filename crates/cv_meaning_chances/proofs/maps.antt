pub mod Pairing
pub mod ListedTapes
pub mod Maps
