-- What is found among the suspects.
pub mod Rest
pub mod Support
pub mod Dead
