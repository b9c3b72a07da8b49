mod Ending
pub mod Fronts
