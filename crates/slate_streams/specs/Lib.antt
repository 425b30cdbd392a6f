pub mod InMemory
pub mod Streams
pub mod Whole
