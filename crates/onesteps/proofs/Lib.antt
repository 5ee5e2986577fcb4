-- The laws of `onesteps`, in the order in which they build on each other.
pub mod StepCheckLaws
pub mod StepPassLaws
pub mod LaterLaws
pub mod StepApplyLaws
pub mod StepBatchLaws
