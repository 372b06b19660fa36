pub mod Counts
pub mod FollowLemmas
mod FollowerLemmas
pub mod Asking
