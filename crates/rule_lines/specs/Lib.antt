-- What the rules program writes for an input.
pub mod Answers
pub mod Kept
pub mod Stores
pub mod Progress
pub mod Promised
pub mod Whole
pub mod Known
