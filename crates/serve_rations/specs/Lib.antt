pub mod Guarding
pub mod Rationing
pub mod Amounts
pub mod Connections
pub mod Ledgers
pub mod Memory
pub mod Rows
