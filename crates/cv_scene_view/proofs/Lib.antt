pub mod Above
pub mod Tested
pub mod Tests
pub mod There
pub mod Whole
