-- What the session program writes for an input.
pub mod Listing
pub mod Progress
pub mod Whole
pub mod Known
