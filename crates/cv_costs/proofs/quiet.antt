pub mod Related
pub mod Served
pub mod Shapes
pub mod Chosen
