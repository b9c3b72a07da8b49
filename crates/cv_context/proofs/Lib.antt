pub mod Walking
pub mod Drawn
pub mod Aligned
pub mod Called
