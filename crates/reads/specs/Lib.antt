-- What reading one key promises, and the words of demand 2 for it.
-- Assumes nothing.
pub mod Seen
pub mod Parts
pub mod Shown
