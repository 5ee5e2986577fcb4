-- The laws of `driving`, in the order in which they build on each other.
pub mod AskLaws
pub mod RunCallLaws
pub mod KeepLaws
