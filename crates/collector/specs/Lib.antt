-- What the collector's functions compute, and the step's contract.
pub mod FreedCells
pub mod SweepPass
pub mod Steps
