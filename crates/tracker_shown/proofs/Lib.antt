pub mod Once
pub mod StandLemmas
pub mod ListLemmas
pub mod TurnLemmas
pub mod PlaceLemmas
pub mod OpeningLemmas
pub mod StateLemmas
pub mod Crossing
