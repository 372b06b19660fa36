mod Risings
pub mod Crossing
pub mod HandedBacks
