-- The definitions of `showing`, in the order in which they build on each other.
pub mod Told
pub mod Replying
pub mod Shows
pub mod Ran
