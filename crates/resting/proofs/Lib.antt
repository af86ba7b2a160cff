-- Why a settled call is a rule with a frame.
pub mod CellsInUse
pub mod Settles
pub mod Runs
pub mod Rows
pub mod FreshRests
pub mod Asking
