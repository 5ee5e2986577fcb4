-- The definitions of `onesteps`, in the order in which they build on each other.
pub mod Checks
pub mod Counts
