-- What an image takes from lines and slots, in the order in which the definitions build on each other. Assumes nothing.
pub mod Lines
pub mod Sizes
pub mod Chains
