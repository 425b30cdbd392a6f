pub mod Flushing
pub mod Kept
pub mod Lined
pub mod Sparing
pub mod Stepping
pub mod Writing
