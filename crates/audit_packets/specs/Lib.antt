pub mod Answers
pub mod Names
pub mod Packets
