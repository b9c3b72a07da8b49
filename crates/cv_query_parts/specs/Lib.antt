pub mod Alternatives
pub mod Views
pub mod Said
pub mod Countable
pub mod pairs
