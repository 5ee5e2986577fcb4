-- The laws of `actions`, in the order in which they build on each other.
pub mod ApplyEntryLaws
