pub mod Entries
pub mod Decoded
pub mod Kept
