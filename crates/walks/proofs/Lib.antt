-- Laws of the judging walk.
-- Assumes nothing.
pub mod WalkLaws
pub mod ListedLineLaws
pub mod ReadKeyLaws
pub mod WalkLineLaws
