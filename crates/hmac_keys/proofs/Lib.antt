pub mod Crossing
pub mod Masks
pub mod Differences
pub mod Reading
