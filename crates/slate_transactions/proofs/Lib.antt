pub mod Adding
pub mod Noting
pub mod Owning
pub mod Ranges
pub mod Tracking
