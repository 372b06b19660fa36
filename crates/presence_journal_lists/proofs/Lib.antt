pub mod LivesLemmas
pub mod GoneLemmas
pub mod StandingLemmas
