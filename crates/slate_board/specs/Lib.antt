pub mod Rule
pub mod Seat
pub mod Steps
pub mod Shows
pub mod Views
pub mod Words
