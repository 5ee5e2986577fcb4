-- The definitions of `collects`.
pub mod Passes
pub mod Promise
