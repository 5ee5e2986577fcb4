-- The laws of `lookups`, in the order in which they build on each other.
pub mod HistoryLaws
pub mod LookUpLaws
