-- The definitions of `changes`, in the order in which they build on each other.
pub mod Loads
pub mod Writes
pub mod Changes
pub mod Packs
