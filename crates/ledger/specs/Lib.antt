-- The definitions of `ledger`, in the order in which they build on each other.
pub mod Ledger
pub mod Tidy
pub mod Restored
pub mod BoxImages
pub mod Collected
pub mod Holders
