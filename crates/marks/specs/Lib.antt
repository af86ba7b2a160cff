-- Marks and roots, and what the functions that mark compute.
pub mod Marks
pub mod Stack
