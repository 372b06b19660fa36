pub mod Tasks
pub mod Lives
