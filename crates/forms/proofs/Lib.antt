-- The laws of `forms`, in the order in which they build on each other.
pub mod Orders
pub mod CompareLaws
pub mod SameLaws
pub mod ReaderLaws
pub mod NumberLaws
pub mod WriterLaws
pub mod KeyFormLaws
pub mod RowLaws
pub mod BoneLaws
pub mod BatchEntryLaws
pub mod ReadAllLaws
pub mod DecodeLaws
pub mod AscendLaws
pub mod OneLaws
