pub mod Lines
pub mod Metrics
