-- What the judging walk promises.
-- Assumes nothing.
pub mod Walked
