pub mod MadeGames
pub mod Extents
pub mod Laying
pub mod Lists
pub mod Stacks
mod Descent
