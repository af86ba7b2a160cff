pub mod Cells
pub mod Changes
pub mod Naming
