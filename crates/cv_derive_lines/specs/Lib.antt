pub mod Lasts
pub mod Views
pub mod citing
pub mod terms
