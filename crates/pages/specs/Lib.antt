-- What the page calls promise, and what their writers ask.
-- Assumes nothing.
pub mod Asks
