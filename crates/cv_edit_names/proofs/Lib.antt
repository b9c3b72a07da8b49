mod Nodes
mod Renamed
mod ListedCells
mod BranchSizes
mod NamedPlaces
mod Lists
mod Told
mod Sized
