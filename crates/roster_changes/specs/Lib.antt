-- The roster's list changed. No promise of the roster says which cells a seat takes.
pub mod Changes
