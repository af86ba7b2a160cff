-- A row program that makes a step after each row call: what it finds between two of them.
pub mod Rests
pub mod Settling
pub mod Runs
