pub mod Numbers
pub mod Agreed
pub mod CallTexts
pub mod Whole
pub mod Equality
pub mod Costs
pub mod Drawn
pub mod Steps
