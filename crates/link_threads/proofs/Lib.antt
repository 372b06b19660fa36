pub mod Crossing
pub mod MoreTasks
pub mod ManyCame
