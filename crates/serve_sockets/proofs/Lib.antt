mod Sendings
mod Stopping
mod BufferSendings
pub mod Crossing
