-- The collector's laws.
pub mod FreedCells
pub mod SweepPass
pub mod Collected
pub mod Applied
pub mod StepContract
