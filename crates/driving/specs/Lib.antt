-- The definitions of `driving`, in the order in which they build on each other.
pub mod Changes
pub mod Asks
