-- The laws that the proofs of this crate's functions stand on. Assumes nothing.
pub mod CaptureLineLaws
pub mod EntrySizeLaws
pub mod SumLaws
pub mod SizeLaws
