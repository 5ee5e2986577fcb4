-- The definitions of `traces`, in the order in which they build on each other.
pub mod Put
pub mod Payloads
pub mod Answers
pub mod Ops
pub mod Arguments
pub mod Calls
pub mod Shapes
pub mod Trace
pub mod Taken
pub mod Args
pub mod Walk
