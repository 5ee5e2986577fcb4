-- The laws of `orders`, in the order in which they build on each other.
pub mod MarkLaws
pub mod SortLaws
pub mod MergeLaws
pub mod FindLaws
