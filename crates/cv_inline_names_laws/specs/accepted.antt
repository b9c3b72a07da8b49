pub mod RightBodies
pub mod Drawn
