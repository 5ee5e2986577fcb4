-- The definitions of `bench`, in the order in which they build on each other.
pub mod Asks
