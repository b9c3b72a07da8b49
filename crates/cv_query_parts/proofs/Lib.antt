pub mod Said
pub mod Choosing
