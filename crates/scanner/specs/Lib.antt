-- What scanning a rule text gives.
pub mod Tokens
pub mod Modes
pub mod Scans
pub mod Scanning
