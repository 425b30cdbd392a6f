pub mod Executors
pub mod Groups
pub mod Handlers
pub mod Origins
pub mod Runs
pub mod Tasks
pub mod Tickers
pub mod Turns
