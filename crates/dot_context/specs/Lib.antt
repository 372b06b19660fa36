pub mod Runs
pub mod Sets
pub mod Codes
pub mod Changes
pub mod Forms
