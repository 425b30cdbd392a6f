pub mod Digits
pub mod Laws
pub mod Many
pub mod BothLaws
pub mod Sealed
pub mod Texts
pub mod Writing
