-- The demands carried to the code. Assumes nothing.
pub mod Stays
pub mod Carried
pub mod Refusals
pub mod Alike
pub mod StoreImages
pub mod Collections
pub mod Counts
pub mod Conversions
pub mod Singles
pub mod Holders
