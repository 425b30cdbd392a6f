pub mod Counts
pub mod Line
pub mod Operator
pub mod Order
pub mod Prefix
pub mod Range
pub mod Modelled
pub mod Written
