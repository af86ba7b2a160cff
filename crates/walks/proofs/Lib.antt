-- Laws of walks.
pub mod Places
pub mod Tally
pub mod Counting
pub mod Pointers
pub mod Walking
pub mod Halfway
