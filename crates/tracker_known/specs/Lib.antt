pub mod Picks
pub mod Again
pub mod Standings
pub mod Known
pub mod Starts
pub mod Steps
pub mod Turns
