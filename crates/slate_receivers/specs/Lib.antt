pub mod Asked
pub mod Looks
pub mod Moments
pub mod Outcomes
pub mod Reported
