-- The laws of `traces`, in the order in which they build on each other.
pub mod PutLaws
pub mod FormLaws
pub mod OpLaws
pub mod TakenLaws
pub mod CallLaws
pub mod TraceLaws
pub mod WalkLaws
