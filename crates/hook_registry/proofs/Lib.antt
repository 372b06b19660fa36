pub mod Gathering
pub mod RenderedBack
pub mod Choosing
pub mod Short
pub mod Noticing
