pub mod Trees
pub mod Table
pub mod Worked
pub mod spelling
pub mod terminals
