pub mod CommandLine
pub mod Limits
pub mod Given
pub mod Origins
pub mod Hosts
