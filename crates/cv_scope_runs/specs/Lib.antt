pub mod Reads
pub mod Indexed
pub mod Keys
pub mod Promises
pub mod Worked
