pub mod Bound
pub mod Index
pub mod Read
pub mod Run
pub mod Size
pub mod Tails
pub mod Walk
