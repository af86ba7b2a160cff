-- The seat roster (document 02, A7) as a plain list of seat and reading. Nothing here knows of cells.
pub mod Readings
pub mod Calls
pub mod Answers
pub mod Cases
