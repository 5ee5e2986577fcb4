-- The definitions of `demands`, in the order in which they build on each other.
pub mod Demands
pub mod Calls
pub mod StoreImages
pub mod Collections
pub mod Counts
pub mod Conversions
pub mod Singles
pub mod Holders
