-- The text of a word: what is measured, and the walk that both passes go by.
pub mod Measures
pub mod Pieces
pub mod Walk
