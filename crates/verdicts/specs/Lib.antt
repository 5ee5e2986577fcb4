-- The definitions of `verdicts`, in the order in which they build on each other.
pub mod Verdicts
