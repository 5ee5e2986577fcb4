-- The definitions of `images`, in the order in which they build on each other.
pub mod Good
pub mod Sections
pub mod Entries
