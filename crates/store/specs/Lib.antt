-- The definitions of `store`, in the order in which they build on each other.
pub mod View
pub mod Made
pub mod Views
pub mod Stretches
