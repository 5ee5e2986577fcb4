-- The laws of `collects`, in the order in which they build on each other.
pub mod PassReturnLaws
pub mod NextLaws
pub mod LeftLaws
pub mod PackLaws
pub mod PassLaws
pub mod WalkLaws
pub mod CollectedLaws
