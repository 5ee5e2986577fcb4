-- The definitions of `lookups`.
pub mod KeyStates
