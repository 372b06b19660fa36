pub mod Lives
pub mod Standings
