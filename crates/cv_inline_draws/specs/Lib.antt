pub mod names
pub mod sites
pub mod drawing
pub mod taken_names
pub mod callings
