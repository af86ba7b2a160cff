-- Laws of suspects.
pub mod Members
pub mod Ascending
pub mod Sums
pub mod Reaches
pub mod Insertion
pub mod Supported
pub mod RestLaws
pub mod KeptCells
pub mod LostCell
pub mod DeadCells
