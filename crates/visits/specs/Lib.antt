-- Where a row's label lies.
-- Assumes nothing.
pub mod Labels
pub mod Halls
