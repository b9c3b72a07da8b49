pub mod Locality
pub mod OnlyMade
