-- The definitions of `orders`, in the order in which they build on each other.
pub mod Marks
pub mod Sorts
pub mod Finds
