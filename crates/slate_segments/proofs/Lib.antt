pub mod Prefixes
pub mod Taking
