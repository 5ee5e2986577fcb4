-- The definitions of `figures`, in the order in which they build on each other.
pub mod Walks
