pub mod Latest
pub mod Turns
pub mod Rising
pub mod HandedBack
