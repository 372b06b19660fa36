pub mod Walked
pub mod LeftOut
pub mod Full
pub mod ByDot
pub mod Reaching
