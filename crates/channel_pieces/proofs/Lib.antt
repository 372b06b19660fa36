pub mod Crossing
pub mod Folding
pub mod Passing
