-- The definitions of `pairs`, in the order in which they build on each other.
pub mod Puts
pub mod Asks
