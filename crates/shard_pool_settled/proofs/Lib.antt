pub mod Entries
mod Standing
