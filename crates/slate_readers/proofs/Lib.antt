pub mod Changing
pub mod Firsts
pub mod Prefixes
pub mod Publishing
pub mod Endings
pub mod Showing
pub mod Told
