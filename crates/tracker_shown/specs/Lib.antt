pub mod Turns
pub mod Stands
pub mod Kept
pub mod ShownTurns
pub mod Listing
pub mod Placing
pub mod Opening
pub mod States
