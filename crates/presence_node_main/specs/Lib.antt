pub mod ServeEnds
pub mod Ending
pub mod Ends
pub mod Ledgers
pub mod Place
pub mod ClientSettings
pub mod KeyFiles
pub mod Laws
