-- Laws of pages.
-- Assumes nothing.
pub mod PutEntryLaws
pub mod PageLaws
