-- Lines of input and output as bytes.
pub mod Requests
pub mod Kept
pub mod Verdicts
pub mod Texts
pub mod Put
