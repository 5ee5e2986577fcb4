-- The definitions of `restores`, in the order in which they build on each other.
pub mod Rows
pub mod Fills
