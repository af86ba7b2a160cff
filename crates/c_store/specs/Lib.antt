pub mod Told
pub mod FromC
