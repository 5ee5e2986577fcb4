-- The laws of `visits`, in the order in which they build on each other.
pub mod WrittenPageLaws
