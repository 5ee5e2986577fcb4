-- The laws that the proofs of this crate's functions stand on. Assumes nothing.
pub mod CaptureEntryLaws
pub mod GoingLaws
pub mod CaptureSectionLaws
pub mod OrderLaws
pub mod CaptureRowLaws
pub mod KeyChainLaws
pub mod LeastLaws
pub mod MadeLaws
pub mod CaptureImageLaws
pub mod MadeStoredLaws
pub mod WorkedImages
