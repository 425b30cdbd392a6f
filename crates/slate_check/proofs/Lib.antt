pub mod Lists
pub mod Orders
pub mod References
pub mod Cached
pub mod Sound
pub mod Unsound
pub mod Reading
pub mod Judging
