-- The laws of `commits`, in the order in which they build on each other.
pub mod CommitKeyLaws
pub mod NewLaws
pub mod CommitPassLaws
pub mod CommitBatchLaws
