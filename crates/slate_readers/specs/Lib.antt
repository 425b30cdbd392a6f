pub mod Aired
pub mod Changes
pub mod Opening
pub mod Published
pub mod Session
pub mod Watching
pub mod Words
