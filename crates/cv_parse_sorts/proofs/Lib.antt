mod AskedQueries
mod SmallNames
mod UsedNames
pub mod Known
pub mod Constants
mod Terms
mod Parts
mod Typed
pub mod Equations
pub mod Closed
mod NamedTrees
mod Calls
mod CallRows
mod DefiningTrees
mod Bindings
mod BindingRows
mod Process
pub mod NamedGames
pub mod TypedRuns
