pub mod Converted
pub mod Places
mod Ends
mod Sizes
mod Turns
mod Walks
