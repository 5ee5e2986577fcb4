-- The definitions of `faults`.
pub mod Judged
