pub mod Prefixes
pub mod Refusals
