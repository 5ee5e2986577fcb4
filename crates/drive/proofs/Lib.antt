-- The laws of `drive`, in the order in which they build on each other.
pub mod NextLaws
