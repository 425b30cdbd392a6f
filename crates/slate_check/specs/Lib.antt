pub mod Named
pub mod Faults
pub mod Reads
pub mod Steps
pub mod Texts
pub mod Shown
