pub mod Keys
pub mod Demands
pub mod Truths
pub mod Uses
pub mod Worked
