-- The worked cases, in the order in which they build on each other.
pub mod Untidy
pub mod ReadCases
pub mod PageCases
pub mod PrewriteCases
pub mod CommitCases
pub mod RollbackCases
pub mod OneStepCases
pub mod HolderCases
pub mod FaultyImages
