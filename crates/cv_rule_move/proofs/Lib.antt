pub mod Stores
pub mod Parts
pub mod Serving
pub mod CellSizes
pub mod Keeping
pub mod Kept
pub mod Declared
pub mod Sound
pub mod FirstPlaces
pub mod Listing
pub mod Planned
mod WorkedMoves
