pub mod Ended
pub mod Carried
pub mod Plainly
pub mod Within
pub mod Crossing
pub mod Acted
pub mod Delivered
pub mod Endings
