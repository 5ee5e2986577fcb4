-- The laws of `store`, in the order in which they build on each other.
pub mod MemberLaws
pub mod StoredLaws
pub mod FreshLaws
pub mod FloorLaws
pub mod StretchLaws
pub mod ViewLaws
pub mod HolderLaws
pub mod BuiltLaws
pub mod KeySoundLaws
pub mod NeedLaws
pub mod TidyLaws
