pub mod Rooms
pub mod Rows
pub mod Subscribers
pub mod Parts
pub mod Outcomes
pub mod Calls
pub mod Checkpoints
