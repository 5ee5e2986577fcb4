-- Laws of reading one key.
-- Assumes nothing.
pub mod ReadLaws
pub mod IntentLaws
pub mod PartLaws
pub mod ShownLaws
