pub mod accepted
pub mod cells
pub mod covered
pub mod drawn
