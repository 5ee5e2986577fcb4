-- The laws of `showing`, in the order in which they build on each other.
pub mod TellLaws
pub mod ReplyLaws
pub mod PagingLaws
pub mod ShowLaws
