pub mod Joins
pub mod Objects
pub mod Once
pub mod Saying
pub mod Answered
