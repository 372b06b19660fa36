pub mod Acting
pub mod Asks
pub mod Exchanges
pub mod Bytes
pub mod Streams
pub mod Talking
