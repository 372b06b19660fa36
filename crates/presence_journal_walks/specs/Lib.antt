pub mod Changes
pub mod Waits
pub mod Rows
pub mod Pending
