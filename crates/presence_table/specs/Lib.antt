pub mod Others
pub mod Plain
pub mod Laws
pub mod Calls
pub mod CallLaws
pub mod Checkpoints
