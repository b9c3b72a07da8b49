pub mod FileTokens
pub mod Naming
pub mod Outside
pub mod RightSides
pub mod ScriptWalk
pub mod Telling
pub mod Walk
