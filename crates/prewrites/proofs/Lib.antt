-- The laws of `prewrites`, in the order in which they build on each other.
pub mod CheckLockLaws
pub mod PrewriteEntryLaws
pub mod PrewriteApplyLaws
