-- The definitions of `commits`, in the order in which they build on each other.
pub mod Checks
pub mod Passes
