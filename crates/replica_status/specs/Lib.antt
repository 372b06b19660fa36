pub mod Limits
pub mod Table
pub mod Boards
pub mod Laws
pub mod Replicas
