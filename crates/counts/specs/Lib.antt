-- What changes of the counters compute, in words of 16 bits.
pub mod Cells
pub mod Changes
pub mod Names
