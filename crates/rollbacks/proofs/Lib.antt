-- The laws of `rollbacks`, in the order in which they build on each other.
pub mod RollbackKeyLaws
pub mod RollbackApplyLaws
