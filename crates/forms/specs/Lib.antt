-- The definitions of `forms`, in the order in which they build on each other.
pub mod Bytes
pub mod Readers
pub mod Numbers
pub mod Key
pub mod Row
pub mod Batch
pub mod Ones
pub mod Writers
pub mod Places
