-- What a walk gives, and what the functions that walk compute.
pub mod Walk
pub mod Tally
