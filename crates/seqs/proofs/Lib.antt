-- The laws of `seqs`, in the order in which they build on each other.
pub mod Parts
pub mod Tests
pub mod Alls
pub mod Tables
pub mod Leading
pub mod Downs
