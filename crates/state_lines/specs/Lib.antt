pub mod Checksum
pub mod Lines
pub mod Replies
pub mod Sizes
pub mod Stores
