pub mod Brief
pub mod Each
pub mod Kept
pub mod LengthsOfLists
mod Lists
pub mod Memory
mod NextRow
mod RawParts
mod RowParts
mod ToldParts
pub mod Again
mod Entered
pub mod Faults
pub mod Found
pub mod FoundLines
pub mod Lengths
mod Outlines
mod Walked
pub mod Written
