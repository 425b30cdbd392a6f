pub mod Checksum
pub mod Reading
pub mod Spelling
pub mod Batches
pub mod Manifests
pub mod Sealing
pub mod Objects
