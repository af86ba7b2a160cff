-- Laws of the sums of waiting changes.
pub mod Known
pub mod Totals
