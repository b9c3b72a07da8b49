pub mod Keeping
pub mod Worked
pub mod renaming
pub mod crypto
