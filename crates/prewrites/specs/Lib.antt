-- The definitions of `prewrites`, in the order in which they build on each other.
pub mod Checks
