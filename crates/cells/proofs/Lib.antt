-- The part of the table that begins at word 3.
pub mod Words
