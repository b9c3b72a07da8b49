pub mod Causes
pub mod Shelves
pub mod Sinks
pub mod Told
pub mod words
