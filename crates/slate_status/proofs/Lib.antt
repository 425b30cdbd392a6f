pub mod Same
pub mod Unions
