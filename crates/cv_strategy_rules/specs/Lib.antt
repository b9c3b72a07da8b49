pub mod Legal
pub mod Settling
pub mod Moves
pub mod Coming
pub mod Demands
pub mod Places
pub mod Worked
