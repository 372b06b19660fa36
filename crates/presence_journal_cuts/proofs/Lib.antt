mod FreshLemmas
mod ChainLemmas
mod UntoldLemmas
mod ChangeLemmas
mod ListingLemmas
pub mod RebirthLemmas
pub mod Crossing
pub mod Starts
pub mod Histories
pub mod Keeping
pub mod RunLemmas
pub mod Handings
pub mod Vacating
pub mod Goings
pub mod KeptLemmas
pub mod Sound
pub mod CutShort
pub mod PartFacts
pub mod PartRows
pub mod PickedLemmas
pub mod Waiting
pub mod Passing
