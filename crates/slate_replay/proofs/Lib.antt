pub mod Appending
pub mod Replaying
pub mod Recovered
pub mod Reading
pub mod Logged
pub mod Looking
