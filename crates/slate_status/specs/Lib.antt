pub mod Records
pub mod Segments
