pub mod Gone
pub mod Unnamed
pub mod Sorts
pub mod Keeping
pub mod Free
pub mod Declared
pub mod Values
pub mod Indices
mod WorkedSteps
pub mod Unletted
pub mod Renamed
