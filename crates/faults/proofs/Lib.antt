-- The laws of `faults`, in the order in which they build on each other.
pub mod ImageLoadLaws
pub mod KindLaws
pub mod JudgeLaws
