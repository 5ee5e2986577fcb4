-- The definitions of `actions`, in the order in which they build on each other.
pub mod EntryAsks
pub mod Actions
