-- The laws of `images`, in the order in which they build on each other.
pub mod TestLaws
pub mod GoodLaws
pub mod GoodReaderLaws
pub mod SpanLaws
pub mod ImageLaws
pub mod ImageEntryLaws
