-- What the load program writes for an input.
pub mod Listing
pub mod Progress
pub mod Whole
pub mod Agrees
pub mod Known
