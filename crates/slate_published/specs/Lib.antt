pub mod Adding
pub mod Beginnings
pub mod Copies
pub mod Origins
pub mod Published
pub mod Reading
pub mod States
pub mod Views
