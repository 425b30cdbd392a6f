pub mod Errors
pub mod Kinds
pub mod PublicErrors
pub mod Tasks
pub mod Texts
