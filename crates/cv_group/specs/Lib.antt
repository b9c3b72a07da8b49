pub mod Tables
pub mod Refusals
pub mod shapes
pub mod bodies
