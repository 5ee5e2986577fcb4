-- The laws of `mvcc`, for those who call it.
pub mod Within
