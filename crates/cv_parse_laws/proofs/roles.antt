pub mod Constants
pub mod Declared
pub mod DeclaredKinds
pub mod Filling
pub mod Forms
pub mod Games
pub mod Rows
pub mod UsedRoles
