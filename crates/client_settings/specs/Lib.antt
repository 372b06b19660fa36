pub mod Names
pub mod Events
pub mod Kept
pub mod Meaning
pub mod Telling
pub mod Laws
