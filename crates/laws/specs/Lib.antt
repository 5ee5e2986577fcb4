-- The definitions of `laws`, in the order in which they build on each other.
pub mod Adds
pub mod Places
pub mod Keys
pub mod Singles
