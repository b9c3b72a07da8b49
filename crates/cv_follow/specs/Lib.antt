pub mod Courses
pub mod Scripts
pub mod Walks
pub mod Searches
pub mod Fillings
