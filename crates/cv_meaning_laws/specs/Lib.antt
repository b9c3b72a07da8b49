pub mod Agreement
pub mod Worked
pub mod adequacy
