pub mod Pieces
pub mod Laws
pub mod Piecewise
