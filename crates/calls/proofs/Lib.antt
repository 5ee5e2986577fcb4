-- The laws of `calls`, in the order in which they build on each other.
pub mod EntryPartLaws
pub mod SettledLaws
pub mod AnswerLaws
pub mod CheckAllLaws
pub mod PassLaws
pub mod SeenLaws
pub mod ApplyAllLaws
pub mod RoomJudgeLaws
pub mod CheckEachLaws
pub mod DoneLaws
pub mod StoreLaws
