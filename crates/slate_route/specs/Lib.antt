pub mod Lines
pub mod Reading
pub mod Session
pub mod Standing
pub mod Texts
pub mod Turns
