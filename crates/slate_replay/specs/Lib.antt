pub mod Newest
pub mod Replay
pub mod Tables
