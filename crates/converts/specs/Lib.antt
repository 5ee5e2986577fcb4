-- The definitions of `converts`, in the order in which they build on each other.
pub mod Judged
pub mod Grown
pub mod Promise
