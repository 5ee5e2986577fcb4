-- What the functions that write an image ask and promise. Assumes nothing.
pub mod Asks
pub mod Promise
