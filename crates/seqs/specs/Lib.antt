-- The definitions of `seqs`, in the order in which they build on each other.
pub mod Tables
