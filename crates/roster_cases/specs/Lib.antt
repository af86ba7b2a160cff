-- What the test program tells of a store.
pub mod Figures
