-- The laws of `changes`, in the order in which they build on each other.
pub mod WriteLaws
pub mod TablePlaceLaws
pub mod TableLaws
pub mod LineLoadLaws
pub mod StretchLaws
pub mod ChangeLaws
pub mod KeptLaws
pub mod PutLockLaws
pub mod PutRecordLaws
pub mod EndLaws
pub mod PackLaws
