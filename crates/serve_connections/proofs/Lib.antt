pub mod Marks
mod GrantLemmas
mod PlainLemmas
mod SigningLemmas
mod Renewals
mod PieceLemmas
mod Turnings
mod Sparings
pub mod ConnectionCrossing
pub mod Lists
pub mod Numbers
pub mod Takings
pub mod Places
pub mod LeavingLemmas
pub mod Notes
pub mod Marking
pub mod Holding
pub mod Stoppings
pub mod Crossing
