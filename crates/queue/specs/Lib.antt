pub mod Held
pub mod Kinds
pub mod Sums
