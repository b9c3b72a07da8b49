pub mod Items
pub mod Derivations
pub mod Certificates
pub mod Proposals
