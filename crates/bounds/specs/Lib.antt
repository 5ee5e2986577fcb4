-- The bounds that flags and slices say.
-- Assumes nothing.
pub mod Bounds
