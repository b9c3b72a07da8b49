pub mod Symbols
pub mod Rules
pub mod Faults
pub mod Worked
