pub mod Pieces
pub mod Numbers
pub mod Marks
pub mod Allowed
pub mod Changes
pub mod Written
pub mod Laws
