pub mod Copies
pub mod Lines
pub mod Prefixes
pub mod Modelled
