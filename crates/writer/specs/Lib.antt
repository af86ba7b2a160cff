-- Writing rule text.
pub mod Front
pub mod Writes
