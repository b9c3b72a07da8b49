pub mod Rules
pub mod Tests
pub mod Refusals
pub mod Held
pub mod Worked
