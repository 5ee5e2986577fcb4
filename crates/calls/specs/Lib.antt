-- The definitions of `calls`, in the order in which they build on each other.
pub mod Settled
pub mod Entries
pub mod Steps
pub mod Weights
pub mod Passes
