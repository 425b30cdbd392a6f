pub mod Kept
pub mod Own
pub mod Transaction
pub mod Writes
