-- Runs of bytes and numbers in base ten.
pub mod Bytes
pub mod Numbers
pub mod Decimal
pub mod Put
pub mod Lines
