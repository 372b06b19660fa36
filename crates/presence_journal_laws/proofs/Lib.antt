pub mod Effects
pub mod More
pub mod Entries
pub mod Closed
pub mod Telling
pub mod Keeping
pub mod Parts
pub mod Rebirths
pub mod Checkpoints
pub mod OneDiff
pub mod Forms
pub mod PartsStay
pub mod Beginnings
pub mod Alikes
pub mod AlikeRows
pub mod AlikeTold
pub mod Sound
pub mod Covered
pub mod Shown
pub mod Told
pub mod Outcomes
pub mod Thens
pub mod Silent
pub mod Next
pub mod Later
pub mod Steps
pub mod Waiting
pub mod WorkedTables
mod WorkedRuns
mod Limit
mod Runs
mod Worked
mod Joined
mod PlainLemmas
