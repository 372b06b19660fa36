pub mod Lines
pub mod Ticker
