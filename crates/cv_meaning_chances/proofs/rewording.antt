pub mod Alike
pub mod SameCells
