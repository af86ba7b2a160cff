pub mod Cells
pub mod FreeChain
