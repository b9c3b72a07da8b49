pub mod Parted
pub mod Entered
pub mod Reads
