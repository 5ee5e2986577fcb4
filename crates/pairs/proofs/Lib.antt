-- The laws of `pairs`, in the order in which they build on each other.
pub mod SortedLaws
pub mod MarkPlaces
pub mod SortedPlaceLaws
pub mod EntryPairLaws
pub mod PutsMatchLaws
pub mod EachLaws
pub mod AskLaws
