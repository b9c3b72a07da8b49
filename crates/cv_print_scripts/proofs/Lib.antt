mod Fronts
mod Marks
mod Rows
mod Scripts
mod Small
mod Terms
pub mod Texts
mod Tokens
mod Words
