pub mod Accepting
pub mod Hops
pub mod Lists
pub mod Looking
pub mod Unkeyed
