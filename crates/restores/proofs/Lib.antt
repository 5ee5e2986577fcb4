-- The laws of `restores`, in the order in which they build on each other.
pub mod FindRowLaws
pub mod PutLineLaws
pub mod CarriedLaws
pub mod FillLaws
pub mod RestoreLaws
