-- The definitions of `turns`.
-- Assumes nothing.
pub mod Scans
pub mod Dues
pub mod Turns
