pub mod Tables
pub mod Doors
pub mod Crossing
